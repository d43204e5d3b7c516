pub mod Frames
pub mod Keys
pub mod Records
pub mod Inner
