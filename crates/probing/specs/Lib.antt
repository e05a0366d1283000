pub mod Remembered
pub mod Once
