-- Why each part of an answer is read back from its number. Assumes nothing.
pub mod Reading
