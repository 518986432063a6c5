pub mod Answering
pub mod Asking
pub mod Settling
pub mod Theorems
