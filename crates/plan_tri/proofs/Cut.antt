-- A cut from the least vertex to the farthest vertex in the ear.
pub mod Outside
pub mod Moved
pub mod Halves
pub mod Even
pub mod Diagonal
pub mod Cutting
pub mod Loops
pub mod OutOfWay
pub mod VerticesOutside
pub mod Together
