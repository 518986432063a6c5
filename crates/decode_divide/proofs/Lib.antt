pub mod Quotients
pub mod Dividing
pub mod Untwisting
pub mod Quotienting
pub mod Finding
