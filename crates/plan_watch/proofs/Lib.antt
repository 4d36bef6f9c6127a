pub mod Left
mod Telling
