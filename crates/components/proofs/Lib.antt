pub mod Staging
pub mod Parted
pub mod Bridge
pub mod Small
pub mod Alike
pub mod Demands
pub mod Zeroth
