pub mod Meets
pub mod RequireLaws
pub mod OpLaws
pub mod InLaws
