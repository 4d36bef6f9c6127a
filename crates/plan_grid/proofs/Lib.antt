pub mod Divisors
pub mod Edges
pub mod FormalSpots
mod Heights
pub mod Lowest
pub mod Multiples
mod OddParts
pub mod Signs
pub mod Sizes
pub mod Spots
mod OverLcm
pub mod Triangles
pub mod Turns
pub mod Unique
mod Values
