pub mod Counts
pub mod Worth
pub mod Grain
pub mod Pattern
