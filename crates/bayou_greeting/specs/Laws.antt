pub mod Bits
pub mod Digests
pub mod Equality
pub mod Lines
pub mod Texts
