pub mod Places
pub mod Changes
pub mod Lineup
pub mod Gathering
pub mod Sums
pub mod Report
pub mod Back
pub mod Meaning
