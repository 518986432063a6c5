pub mod Face
pub mod Theorems
