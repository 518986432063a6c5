pub mod Checks
pub mod Calls
pub mod Theorems
