pub mod Bitmap
pub mod Repeating
pub mod Outside
