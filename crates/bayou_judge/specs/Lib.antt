pub mod History
pub mod Guarantees
pub mod Breaches
pub mod Evidence
pub mod Answers
pub mod Inner
