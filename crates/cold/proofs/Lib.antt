pub mod Probed
pub mod Passed
pub mod Both
pub mod Walked
pub mod Demands
