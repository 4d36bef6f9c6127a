pub mod Corner
pub mod Ear
pub mod Cut
pub mod Region
