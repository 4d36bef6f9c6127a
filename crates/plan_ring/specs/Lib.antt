pub mod Laws
pub mod Grown
pub mod Alike
