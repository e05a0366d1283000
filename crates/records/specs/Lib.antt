pub mod Parsing
pub mod Reading
pub mod Told
pub mod WellFormed
