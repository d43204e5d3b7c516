pub mod Inner
pub mod Losing
pub mod Meeting
pub mod Offers
pub mod Pulls
pub mod Stopping
pub mod Taking
