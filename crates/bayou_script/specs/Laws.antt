pub mod Kinds
pub mod Network
