-- A search from the goal gives distances, and least steps down them the first of the shortest walks.
pub mod Numbers
pub mod Distances
pub mod FirstWalk
pub mod Steps
pub mod Spreading
pub mod Stepping
pub mod Rows
pub mod Joined
pub mod RegionRows
pub mod Carried
pub mod Floods
