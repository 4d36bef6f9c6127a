pub mod Triangle
pub mod Farthest
pub mod Step
