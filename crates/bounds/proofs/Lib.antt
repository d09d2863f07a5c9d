pub mod Growth
pub mod Heights
pub mod Rooms
pub mod Claim
