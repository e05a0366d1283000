pub mod Upto
pub mod Stored
pub mod Pass
pub mod Held
pub mod Terms
pub mod Turned
pub mod Counted
