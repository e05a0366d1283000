pub mod Call
pub mod Found
