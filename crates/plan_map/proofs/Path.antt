-- The path along a walk is clear: regions are convex, the way between a wall and a cell beside it stays in the two, and repeats may be dropped.
pub mod Places
pub mod Regions
pub mod Repeats
pub mod Walk
