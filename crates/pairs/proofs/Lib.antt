pub mod ListLaws
pub mod FreeLaws
pub mod PairLaws
pub mod WalkLaws
pub mod CallLaws
pub mod Examined
pub mod Found
pub mod Demands
