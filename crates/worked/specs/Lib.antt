pub mod Fields
pub mod Cases
pub mod Held
pub mod One
pub mod Swallowed
pub mod Units
