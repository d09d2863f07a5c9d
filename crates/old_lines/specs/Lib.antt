pub mod Old
pub mod Good
pub mod Claims
