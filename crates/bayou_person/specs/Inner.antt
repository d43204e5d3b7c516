pub mod Alternatives
pub mod Values
