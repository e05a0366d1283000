pub mod Cuts
pub mod Moves
pub mod Takes
pub mod Turns
