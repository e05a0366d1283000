pub mod Answers
pub mod Call
pub mod Listing
pub mod Walk
