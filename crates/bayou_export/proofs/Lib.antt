mod Exported
mod Kept
mod Plain
mod Written
