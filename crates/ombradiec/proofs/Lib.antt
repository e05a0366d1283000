-- Why counts and positions have room in their numbers, and what a caller reads from each call. Assumes nothing.
pub mod Answered
pub mod Positions
pub mod Counts
pub mod Probed
pub mod Theorems
pub mod Records
