pub mod Grid
pub mod Between
pub mod Foldable
pub mod Turning
pub mod Folding
pub mod Valuing
