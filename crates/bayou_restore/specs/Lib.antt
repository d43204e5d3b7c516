pub mod Differing
pub mod Gathering
pub mod Inner
pub mod Restoring
