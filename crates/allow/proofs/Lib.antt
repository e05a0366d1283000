pub mod Choosing
pub mod Same
pub mod Means
pub mod Laws
pub mod Counts
pub mod Demands
pub mod Alone
