pub mod Rules
pub mod Chains
pub mod Freeing
pub mod Going
pub mod Serving
