pub mod Exports
pub mod Imports
pub mod Pages
pub mod Plans
pub mod Renewals
pub mod Told
