pub mod Tab
pub mod Window
pub mod Every
pub mod Part
