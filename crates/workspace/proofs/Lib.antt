pub mod Shifting
pub mod Backed
pub mod Restored
pub mod Touching
pub mod Again
pub mod Begun
pub mod Theorems
