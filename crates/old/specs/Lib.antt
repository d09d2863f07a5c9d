pub mod Read
pub mod Make
pub mod Call
