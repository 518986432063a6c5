pub mod Marks
pub mod Missing
pub mod Weights
