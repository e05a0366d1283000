pub mod Framed
pub mod Halfway
pub mod Twinned
