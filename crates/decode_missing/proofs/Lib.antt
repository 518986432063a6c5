pub mod Unmarked
pub mod Fitting
pub mod Laying
