pub mod Reading
pub mod Laying
