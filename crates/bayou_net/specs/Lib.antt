pub mod Halting
pub mod Inner
pub mod Lent
pub mod Lookups
pub mod Replies
pub mod Serving
