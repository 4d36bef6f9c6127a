pub mod Expr
pub mod Formal
pub mod Sign
pub mod Vectors
