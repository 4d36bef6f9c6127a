pub mod Edited
pub mod Edits
pub mod Lane
pub mod Numbers
pub mod Round
pub mod Works
