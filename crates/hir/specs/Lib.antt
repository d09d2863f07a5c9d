pub mod Run
pub mod Kids
pub mod Lines
pub mod Check
pub mod Bind
