pub mod Joint
pub mod Blocks
pub mod Flush
pub mod Holding
