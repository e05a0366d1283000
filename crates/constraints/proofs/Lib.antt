pub mod Codes
pub mod Records
pub mod Numbers
