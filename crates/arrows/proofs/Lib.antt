pub mod Marks
pub mod Filled
