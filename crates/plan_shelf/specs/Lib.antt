pub mod History
pub mod Views
pub mod Known
pub mod Told
pub mod Tied
