pub mod Device
pub mod Laws
pub mod Memory
pub mod MemoryDevice
