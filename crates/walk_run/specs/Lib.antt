pub mod Run
pub mod Depth
pub mod Claims
