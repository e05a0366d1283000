pub mod Adds
pub mod Counts
pub mod Sums
pub mod Texts
pub mod Theorems
pub mod Worked
