pub mod Between
pub mod Foldable
