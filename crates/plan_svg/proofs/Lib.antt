pub mod Puts
pub mod Boxes
pub mod Sides
