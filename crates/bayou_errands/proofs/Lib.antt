pub mod Planned
pub mod Wanted
