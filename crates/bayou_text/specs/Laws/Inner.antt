pub mod Lists
pub mod Counts
pub mod Readers
pub mod PartTable
pub mod ProgramTable
pub mod Named
pub mod AuditTable
pub mod LineTable
