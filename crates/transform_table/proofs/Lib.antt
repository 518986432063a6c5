pub mod Table
pub mod Halves
pub mod Round
