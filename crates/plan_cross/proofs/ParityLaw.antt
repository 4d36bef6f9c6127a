-- The parity law: what walking does to the number of segments overhead, for one segment, for a closed chain, along a route.
pub mod Xor
pub mod Tests
pub mod Position
pub mod Step
pub mod Tally
pub mod Closed
pub mod Route
