pub mod Sums
pub mod Model
pub mod Call
pub mod Cells
pub mod Rule
pub mod EdgeWeight
pub mod Number
