pub mod Address
pub mod Lines
pub mod Names
pub mod Shows
