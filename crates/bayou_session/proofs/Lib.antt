pub mod Joined
