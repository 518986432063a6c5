pub mod Turns
pub mod Round
