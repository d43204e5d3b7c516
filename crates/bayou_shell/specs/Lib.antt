pub mod Net
pub mod Program
