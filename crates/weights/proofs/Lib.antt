pub mod Counting
pub mod Compare
pub mod Same
pub mod Worth
pub mod Sign
pub mod GrainLaws
pub mod PatternLaws
