-- Regions: each cell and each wall of the slabs is of one kind, clear at each of its points or at none, and each clear point is in exactly one region.
pub mod Falling
pub mod OnPieces
pub mod StraightWays
pub mod Rows
pub mod ByX
pub mod SpanLines
pub mod Cells
pub mod Upright
pub mod Walls
pub mod LotOrder
pub mod Kept
pub mod Spots
pub mod ExactlyOne
pub mod Numbered
pub mod Sides
pub mod NearSums
