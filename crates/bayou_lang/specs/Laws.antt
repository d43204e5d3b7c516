pub mod Clocks
pub mod Database
pub mod Equality
pub mod Fitting
pub mod Lacking
pub mod SetOfWrites
pub mod StampOrder
