pub mod Joined
pub mod Sequence
pub mod Shared
