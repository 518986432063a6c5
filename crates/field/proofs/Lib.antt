pub mod Congruence
pub mod Powers
pub mod Table
pub mod Ring
pub mod Fermat
pub mod Roots
pub mod Sizes
pub mod Theorems
