pub mod Convex
pub mod Walk
pub mod Parameter
pub mod Part
pub mod Span
pub mod Piece
pub mod Boxes
