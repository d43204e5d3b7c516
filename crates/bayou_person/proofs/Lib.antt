pub mod Claiming
pub mod Named
pub mod Once
pub mod Places
pub mod Sound
pub mod Telling
pub mod Zipped
