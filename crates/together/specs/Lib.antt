pub mod Found
pub mod Together
pub mod Worked
