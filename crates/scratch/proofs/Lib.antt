pub mod All
pub mod Means
pub mod Over
pub mod Region
