pub mod Returned
pub mod Theorems
