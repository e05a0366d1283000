pub mod Walk
pub mod Part
pub mod Cells
