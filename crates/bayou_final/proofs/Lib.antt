pub mod Chosen
pub mod Front
pub mod Known
pub mod Left
pub mod Rising
