mod Boxed
mod Rounding
mod WholeBoxes
mod InBoxes
mod Each
mod Frames
mod ClearPaths
mod Legs
mod PathFaults
pub mod ChainFaults
pub mod Exclusion
pub mod Scenes
