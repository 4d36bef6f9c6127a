pub mod Distances
pub mod Search
pub mod Row
pub mod Labels
pub mod Located
pub mod Laws
