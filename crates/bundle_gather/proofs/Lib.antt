pub mod Kept
pub mod Marking
pub mod Gathering
pub mod Starting
