pub mod Call
pub mod Usual
pub mod Answers
pub mod ValuesBy
pub mod Values
pub mod Open
