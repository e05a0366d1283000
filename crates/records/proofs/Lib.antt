pub mod Finds
pub mod Front
pub mod Laid
pub mod Longest
pub mod Loop
pub mod Means
pub mod Spelling
