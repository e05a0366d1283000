pub mod Ranking
pub mod Sorting
pub mod Selecting
pub mod Listed
pub mod Masses
pub mod Rightly
pub mod EdgeMass
