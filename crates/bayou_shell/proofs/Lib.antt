pub mod Asked
pub mod Nets
pub mod Tasks
