mod Rows
mod Boundaries
mod Polygons
mod Placements
mod SlabRows
mod WalkRows
