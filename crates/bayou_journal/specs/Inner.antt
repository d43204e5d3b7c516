pub mod Heads
pub mod Reads
