pub mod Turned
pub mod Going
