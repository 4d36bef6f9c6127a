-- What a polygon holds by the even-odd rule: from another vertex on, the other way round, and of three vertices.
pub mod Chains
pub mod Turned
pub mod Walk
pub mod Backwards
pub mod Orders
pub mod Side
pub mod Triangle
pub mod ThreeSides
pub mod Box
