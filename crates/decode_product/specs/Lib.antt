pub mod Factors
pub mod Halves
