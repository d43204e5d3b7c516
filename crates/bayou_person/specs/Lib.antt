pub mod Doing
pub mod Inner
pub mod Wishes
