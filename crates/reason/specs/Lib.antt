pub mod Answers
pub mod Call
pub mod Ground
pub mod Listed
pub mod Rank
pub mod Stages
pub mod Until
