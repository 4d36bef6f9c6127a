-- An ear, and what it leaves.
pub mod Ear
pub mod Diagonal
pub mod Rest
pub mod Fits
pub mod RestTurns
