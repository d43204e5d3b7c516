pub mod Feeding
pub mod Giving
