pub mod Codes
pub mod Record
pub mod Keys
