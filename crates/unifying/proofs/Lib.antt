pub mod Delivered
pub mod CallLaws
