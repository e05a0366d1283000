pub mod Row
pub mod Model
pub mod Stored
pub mod Counted
