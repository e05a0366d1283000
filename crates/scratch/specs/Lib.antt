pub mod All
pub mod Cleared
pub mod Over
pub mod Region
