pub mod Masks
pub mod Listed
pub mod Block
