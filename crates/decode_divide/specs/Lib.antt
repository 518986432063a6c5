pub mod Dividing
pub mod Quotients
pub mod Tests
