pub mod Model
pub mod Merge
pub mod Exceeds
pub mod Exact
pub mod Dominance
