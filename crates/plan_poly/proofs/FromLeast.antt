-- The list of a polygon from its least vertex on.
pub mod Best
pub mod ByPlace
pub mod Ready
pub mod Kept
pub mod Search
pub mod LeastSpot
pub mod Arranged
