-- Whether two segments have a common point, by tests.
pub mod Shares
pub mod Wrongly
