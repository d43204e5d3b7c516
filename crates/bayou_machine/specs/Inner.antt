pub mod Shares
pub mod Sent
pub mod Tagged
pub mod Seated
