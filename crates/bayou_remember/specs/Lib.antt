pub mod Inner
pub mod Memory
pub mod Spelling
