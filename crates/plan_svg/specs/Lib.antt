pub mod Decimal
pub mod Shapes
pub mod Page
