-- Triangles that make up a polygon.
pub mod Triangulated
pub mod Parts
pub mod Third
pub mod Farthest
pub mod Steps
pub mod Region
pub mod Search
pub mod FirstCut
pub mod Cuts
pub mod Polygons
