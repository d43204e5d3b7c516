pub mod First
pub mod Framing
pub mod Laws
pub mod Spelled
pub mod Stopping
