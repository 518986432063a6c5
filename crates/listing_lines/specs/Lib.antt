pub mod Text
pub mod Lines
pub mod Puts
pub mod Theorems
