pub mod Spelled
pub mod Vectors
pub mod Written
pub mod Again
pub mod Lengths
pub mod Pushed
pub mod Plain
