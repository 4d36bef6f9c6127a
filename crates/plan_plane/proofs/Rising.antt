-- Lists in which each element is before all later ones, by an order that compares values and not elements.
pub mod Lists
pub mod ByCoordinate
pub mod ByPoint
