pub mod Putting
pub mod Decimals
pub mod Joining
pub mod Reading
pub mod Theorems
