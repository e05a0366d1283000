pub mod Restored
pub mod Shifted
