pub mod Tab
pub mod Every
pub mod Part
