pub mod Streams
pub mod Bytes
mod Cases
pub mod Each
pub mod Places
pub mod Kept
pub mod Points
pub mod Six
pub mod Four
pub mod Tokens
pub mod Lengths
pub mod Puts
pub mod ReadBack
