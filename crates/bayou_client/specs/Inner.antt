pub mod Exchanging
pub mod Fetching
pub mod Faults
pub mod Spending
pub mod Taking
