pub mod Run
pub mod Room
pub mod Rests
pub mod Ended
pub mod Cells
pub mod First
