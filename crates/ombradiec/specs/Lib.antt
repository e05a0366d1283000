-- What an exported call promises, and what is read from its number. Assumes nothing.
pub mod Exported
pub mod Reading
