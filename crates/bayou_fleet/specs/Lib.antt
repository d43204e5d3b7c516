pub mod Closings
pub mod Opening
pub mod Operating
pub mod Phases
pub mod Refusals
pub mod Servers
