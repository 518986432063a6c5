pub mod Filled
pub mod Plain
