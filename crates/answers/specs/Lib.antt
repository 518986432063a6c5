pub mod First
pub mod Refusals
pub mod Leaves
pub mod Printed
pub mod Telling
pub mod Theorems
