pub mod Ending
pub mod Growing
pub mod Looked
pub mod Operated
