pub mod Meeting
pub mod Points
pub mod Decoding
pub mod Spreading
