pub mod Alike
pub mod NotNan
pub mod Taken
