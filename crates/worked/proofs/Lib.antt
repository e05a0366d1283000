pub mod Worked
pub mod Held
pub mod AtZero
pub mod OneResult
pub mod Swallowed
pub mod Units
