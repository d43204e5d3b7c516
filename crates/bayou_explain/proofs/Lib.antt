mod Causes
mod Counting
mod Each
pub mod Found
mod Placed
mod Stamps
mod Standing
