mod Lines
mod Views
