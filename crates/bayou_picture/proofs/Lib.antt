mod NoMarks
pub mod Pushed
