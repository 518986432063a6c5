pub mod Settling
pub mod Theorems
