pub mod Checks
pub mod Heard
pub mod Index
pub mod Needs
pub mod Known
pub mod Verdicts
