pub mod Filling
pub mod Laying
