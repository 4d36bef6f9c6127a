pub mod Draws
pub mod Demo
