pub mod Answer
pub mod CaseG
