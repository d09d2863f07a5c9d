pub mod Made
pub mod Alike
pub mod Told
pub mod Theorem
pub mod Sound
pub mod Examples
pub mod ClaimLaws
