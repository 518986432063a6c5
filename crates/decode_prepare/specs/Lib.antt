pub mod Prepared
pub mod Inverted
