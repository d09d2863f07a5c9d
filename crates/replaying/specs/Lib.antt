pub mod Judged
pub mod Cases
pub mod Answers
