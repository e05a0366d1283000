pub mod Means
pub mod Copies
pub mod Laws
pub mod Demands
