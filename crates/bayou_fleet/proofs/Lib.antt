mod Arranging
mod Asking
pub mod Answering
pub mod Putting
pub mod Told
