pub mod Answers
pub mod Checks
pub mod Calls
pub mod Theorems
pub mod Worked
pub mod Useless
