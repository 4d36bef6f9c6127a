pub mod Edge
pub mod FirstWrong
pub mod Part
pub mod Polygon
pub mod Laws
