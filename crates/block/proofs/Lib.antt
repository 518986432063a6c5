pub mod Passing
pub mod Calling
pub mod Agreement
pub mod Altering
pub mod Disagreeing
pub mod Theorems
