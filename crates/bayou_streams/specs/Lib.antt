pub mod Account
pub mod Inner
pub mod Laws
pub mod Lines
pub mod Turns
pub mod Waits
pub mod Written
