pub mod Several
pub mod Stored
pub mod TakesAll
