pub mod Sum
pub mod Exact
pub mod Overflow
