pub mod File
pub mod Counts
