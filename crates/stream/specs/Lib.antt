pub mod Heads
pub mod Lists
pub mod Outputs
