pub mod Cases
pub mod Counting
pub mod Pieces
pub mod Tally
pub mod Text
