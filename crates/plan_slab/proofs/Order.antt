-- Two pieces in a slab: where they meet they are on one line, so their heights at one place give their order throughout, and the first piece of each height a span.
pub mod Beside
pub mod Crossing
pub mod Across
pub mod Feet
pub mod OneOrder
pub mod Spans
