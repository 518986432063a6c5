pub mod Passing
pub mod Theorems
