pub mod Exchange
pub mod Filed
pub mod Inner
pub mod Laws
pub mod Standing
pub mod ScriptServer
pub mod Seats
pub mod Run
