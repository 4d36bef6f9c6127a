pub mod Seen
pub mod Step
pub mod First
pub mod Stand
pub mod Rings
pub mod Path
pub mod Laws
