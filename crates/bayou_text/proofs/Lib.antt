pub mod Views
pub mod Faults
pub mod LineLaws
pub mod AtOnce
pub mod HeldAtOnce
pub mod OperationAtOnce
pub mod CheckedAtOnce
