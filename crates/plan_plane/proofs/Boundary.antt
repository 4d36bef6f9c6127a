-- The edges of sums and the sides of a room: what is uncovered, where it touches, and what lies between a clear point and one that touches.
pub mod Sum
pub mod Blocks
pub mod Between
pub mod Position
pub mod Decided
pub mod Beside
pub mod Floor
