pub mod Listed
pub mod Ends
pub mod Going
