pub mod Audit
pub mod Checks
pub mod Explanations
pub mod Faults
pub mod Inner
pub mod Run
pub mod Told
