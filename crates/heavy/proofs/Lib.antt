pub mod Counted
pub mod Values
pub mod Added
pub mod Standing
pub mod Going
pub mod Demands
pub mod Unseen
pub mod Ended
