pub mod Answering
pub mod Tabling
pub mod Examples
pub mod Refusing
pub mod Theorems
