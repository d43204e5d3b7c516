pub mod Db
pub mod Fitting
pub mod Inner
pub mod Laws
pub mod Listing
pub mod Log
pub mod Replay
pub mod Rows
