pub mod Graph
pub mod Location
pub mod Path
pub mod CellPoints
pub mod WallPoints
pub mod RegionSpots
