-- The layout of an answer as one number. Assumes nothing.
pub mod Layout
