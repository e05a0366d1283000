pub mod Finds
pub mod Emit
pub mod Enters
