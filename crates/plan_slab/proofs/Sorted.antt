-- Lines, marks and spans are rising lists of what the pieces have: the ends, the heights at a line, the heights in a slab. So they exist, and two lists of them are equal place by place, whatever the triples.
pub mod Lines
pub mod Heights
pub mod Marks
pub mod Size
pub mod Exist
pub mod Grown
pub mod FirstOfEach
