pub mod Books
pub mod Damage
pub mod Faults
pub mod Inner
