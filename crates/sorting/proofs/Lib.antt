pub mod Parts
pub mod Halves
pub mod Joining
pub mod Thinning
pub mod Numbers
