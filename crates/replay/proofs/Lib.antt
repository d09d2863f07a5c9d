pub mod Decided
pub mod Fills
pub mod Cases
pub mod Agreed
