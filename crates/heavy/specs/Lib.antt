pub mod Rounds
pub mod Comes
pub mod Standing
pub mod Call
