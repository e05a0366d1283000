pub mod Putting
pub mod Effect
pub mod Call
