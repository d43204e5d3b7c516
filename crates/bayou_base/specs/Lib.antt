pub mod Order
pub mod Vector
pub mod Key
pub mod Text
pub mod Refusal
