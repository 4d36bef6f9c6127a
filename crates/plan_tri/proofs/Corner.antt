-- The corner of a polygon at its least vertex.
pub mod Corner
pub mod Clean
pub mod Beside
