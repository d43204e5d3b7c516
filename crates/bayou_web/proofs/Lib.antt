mod Adding
mod Apart
mod Telling
