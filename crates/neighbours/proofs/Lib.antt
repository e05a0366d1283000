pub mod PartLaws
pub mod Push
pub mod Tails
pub mod RowLaws
pub mod PushLaws
pub mod Made
