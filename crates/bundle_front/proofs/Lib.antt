pub mod Bundling
pub mod Onward
pub mod Fronting
