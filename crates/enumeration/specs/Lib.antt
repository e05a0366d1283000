pub mod Held
pub mod Terms
pub mod Weighed
pub mod Alone
