-- Going along a line from its first end: the values of covectors, and where a block first holds.
pub mod Values
pub mod FirstHeld
