pub mod Reword
