-- Triangles and convex polygons: what they hold, and which segments meet them.
pub mod Triangle
pub mod Fan
pub mod Holding
pub mod Meeting
pub mod Sides
pub mod Edges
pub mod Numbered
pub mod Cut
pub mod Corner
