pub mod Call
pub mod Route
pub mod Standing
pub mod Rule
pub mod Says
