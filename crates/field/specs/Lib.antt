pub mod Field
pub mod Symbol
pub mod Congruence
pub mod Roots
pub mod Size
pub mod Points
pub mod Theorems
