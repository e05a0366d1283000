pub mod Small
pub mod Stages
pub mod Call
