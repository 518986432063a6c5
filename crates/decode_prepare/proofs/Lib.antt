pub mod Weighing
pub mod Multiplying
pub mod Preparing
pub mod Finishing
