pub mod Checked
pub mod Cut
pub mod Least
pub mod Shown
