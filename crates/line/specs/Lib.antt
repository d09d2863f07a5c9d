pub mod Words
pub mod Rows
pub mod Kinds
pub mod Fields
pub mod Line
pub mod Quick
pub mod Known
pub mod Opening
