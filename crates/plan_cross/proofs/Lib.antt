pub mod Equal
mod OddEnds
mod Searched
mod Unclosed
mod Found
pub mod First
pub mod ParityLaw
