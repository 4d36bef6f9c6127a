-- What a chain along spans and lines takes: each span is tight and meets the two lines of its slab in marks, and of two neighbours the upper one in no lower mark; and what is uncovered of sloped edges on a line is a mark.
pub mod AtLine
pub mod InOrder
pub mod Tight
pub mod MarkRule
