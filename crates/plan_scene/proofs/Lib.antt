pub mod Pairs
pub mod Meeting
pub mod Number
mod Building
mod Past
pub mod Filtered
pub mod Edited
pub mod Read
pub mod Kept
mod Rooms
