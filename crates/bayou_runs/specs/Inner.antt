pub mod Tie
