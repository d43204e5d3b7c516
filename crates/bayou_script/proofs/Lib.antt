pub mod Arranged
mod Audited
mod Checked
mod Counted
mod Cut
pub mod Once
pub mod Phased
mod Placed
mod Staged
pub mod Told
