pub mod Onward
