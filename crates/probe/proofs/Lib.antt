pub mod Laws
pub mod Found
pub mod Demands
pub mod Twice
