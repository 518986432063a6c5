pub mod Operations
pub mod Points
pub mod Theorems
