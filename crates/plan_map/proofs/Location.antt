-- Which lot holds a point: a binary search finds where a row of numbers falls through 0, and the lines, the marks of a line and the spans of a slab give such rows.
pub mod Sinking
pub mod Rows
pub mod ByNumber
pub mod Lots
