pub mod Chains
pub mod Corners
pub mod Crosses
pub mod Edges
pub mod Fan
pub mod Merge
pub mod MergeEnd
pub mod MergeStep
pub mod Reflection
pub mod Stride
pub mod Sums
pub mod Triangle
pub mod Walks
mod Signs
mod Meeting
pub mod Fractions
pub mod Narrowing
pub mod Distances
pub mod Covered
pub mod Terms
pub mod Spans
pub mod EdgeNumbers
pub mod Apart
mod BoxOfSpots
pub mod InBox
pub mod Means
