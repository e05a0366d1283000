pub mod Scanned
pub mod Search
pub mod Order
pub mod Merged
