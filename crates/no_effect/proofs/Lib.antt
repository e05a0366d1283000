pub mod Chosen
pub mod Marking
pub mod Laws
pub mod Listed
pub mod Demands
