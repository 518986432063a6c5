pub mod Padding
pub mod Messages
pub mod Counting
