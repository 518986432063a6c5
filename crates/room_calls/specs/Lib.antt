pub mod Rooms
pub mod Theorems
