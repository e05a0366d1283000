pub mod Bits
pub mod Count
pub mod Rows
pub mod Stages
