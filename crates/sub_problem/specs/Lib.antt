pub mod Answers
pub mod Call
pub mod Corresponds
pub mod Reduced
pub mod Working
