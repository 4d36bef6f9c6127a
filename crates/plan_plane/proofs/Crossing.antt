-- Two segments: sides, order one over the other, and whether they have a common point.
pub mod Sides
pub mod Throughout
pub mod CommonOrNot
