pub mod Greetings
pub mod Reading
pub mod Lookups
