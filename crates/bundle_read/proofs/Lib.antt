pub mod Searching
pub mod HeldBlocks
pub mod MessageBytes
pub mod Finding
pub mod BlockReading
