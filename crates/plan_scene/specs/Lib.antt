pub mod Shape
pub mod Scene
pub mod Edits
pub mod Built
pub mod Laws
