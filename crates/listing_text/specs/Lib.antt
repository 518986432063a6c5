pub mod Answers
pub mod Listing
pub mod Calls
pub mod Theorems
