pub mod Asked
pub mod Body
pub mod Door
pub mod Head
pub mod Reply
pub mod Site
