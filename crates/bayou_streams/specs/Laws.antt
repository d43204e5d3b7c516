pub mod Taken
pub mod Turned
