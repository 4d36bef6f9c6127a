pub mod Boxes
pub mod Touching
pub mod Fault
pub mod Verdict
pub mod Laws
