pub mod AnswerLaws
pub mod ListLaws
