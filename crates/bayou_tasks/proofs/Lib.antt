pub mod Audited
pub mod Checking
pub mod Explains
pub mod Lent
pub mod Read
pub mod Runs
pub mod Tied
