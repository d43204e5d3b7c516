pub mod Greets
pub mod Hmac
pub mod Laws
pub mod OriginDigests
pub mod Proofs
pub mod StoreKeys
