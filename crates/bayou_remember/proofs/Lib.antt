pub mod Asking
pub mod Having
pub mod Heads
pub mod Reading
pub mod Remembering
pub mod Requests
pub mod Telling
pub mod Unique
