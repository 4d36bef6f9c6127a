-- What every document that is read keeps to: by its readers, piece by piece.
pub mod Reads
pub mod Scenes
pub mod Tasks
pub mod Whole
