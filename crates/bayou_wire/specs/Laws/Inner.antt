pub mod Readers
pub mod Vectors
pub mod Formats
pub mod Payloads
pub mod Sizes
pub mod Fronts
pub mod Greetings
pub mod Lookups
