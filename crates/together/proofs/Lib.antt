pub mod Choice
pub mod Obeying
pub mod Demands
pub mod Unjoined
pub mod Answers
pub mod Worked
