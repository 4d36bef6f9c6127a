pub mod Rectangles
pub mod QueryPoints
mod FirstObstacles
mod DemoCases
