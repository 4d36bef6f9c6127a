pub mod Floor
pub mod Words
pub mod Shown
pub mod Picture
pub mod Seen
pub mod Outcome
pub mod Answers
