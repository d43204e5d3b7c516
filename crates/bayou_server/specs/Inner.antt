pub mod Fields
pub mod Gathering
pub mod Making
pub mod Replaying
pub mod Storing
pub mod Taking
