pub mod Faults
pub mod Runs
pub mod Settling
pub mod Telling
