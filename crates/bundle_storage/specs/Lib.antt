pub mod Bytes
pub mod Blocks
pub mod Rising
pub mod Storage
pub mod Theorems
