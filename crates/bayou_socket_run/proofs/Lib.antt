mod Damaged
pub mod Later
pub mod Settled
pub mod Told
