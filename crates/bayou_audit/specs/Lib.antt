pub mod Blanks
pub mod Inner
pub mod Settles
pub mod Totals
