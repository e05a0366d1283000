pub mod Tests
pub mod Call
