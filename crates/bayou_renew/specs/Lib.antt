pub mod Inner
pub mod Renewal
pub mod Renewing
pub mod Words
