pub mod Placed
pub mod Runs
