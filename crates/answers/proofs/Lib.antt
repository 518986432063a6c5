pub mod First
pub mod Refusals
pub mod Checks
pub mod Leaves
pub mod Returned
pub mod Theorems
