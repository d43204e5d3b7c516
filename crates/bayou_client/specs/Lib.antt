pub mod Exchange
pub mod Inner
pub mod Lookups
pub mod Operating
pub mod Replies
