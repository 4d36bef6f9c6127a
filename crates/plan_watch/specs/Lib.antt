pub mod Stays
pub mod Tallied
