pub mod Reach
pub mod Via
