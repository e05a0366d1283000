pub mod Answers
pub mod Theorems
pub mod Worked
