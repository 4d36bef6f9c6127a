pub mod EvenOdd
pub mod Loop
pub mod FromLeast
pub mod Meets
pub mod Spots
pub mod Leaving
