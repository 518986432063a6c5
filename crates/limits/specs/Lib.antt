pub mod Shape
pub mod Values
