mod Keeps
pub mod Several
mod Written
