pub mod Working
pub mod Elsewhere
pub mod Call
