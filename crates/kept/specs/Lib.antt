pub mod Kept
pub mod Meaning
pub mod Next
pub mod Calls
pub mod Operations
