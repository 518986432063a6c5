pub mod Transform
pub mod Halving
pub mod Order
pub mod InPlace
pub mod Transformable
pub mod Theorems
