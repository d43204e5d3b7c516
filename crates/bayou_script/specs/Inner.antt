pub mod AuditDraft
pub mod Draft
pub mod NetworkDraft
pub mod Stage
pub mod Started
pub mod Taking
pub mod Using
