pub mod Picked
pub mod Closing
pub mod Call
pub mod Shifted
