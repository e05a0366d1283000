pub mod Call
pub mod Values
