pub mod Gaps
pub mod Edge
pub mod Cover
pub mod Pieces
pub mod Laws
