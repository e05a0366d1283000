pub mod Twin
