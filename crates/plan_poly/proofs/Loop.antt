-- Loops: simple polygons without the numbers of their edges, and what they are cut, turned and reversed.
pub mod Loop
pub mod Parts
pub mod Corner
pub mod Straight
pub mod Backwards
pub mod Edges
pub mod Simple
