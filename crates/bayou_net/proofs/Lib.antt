pub mod Desks
mod Done
mod Dumped
