pub mod Levels
pub mod Standings
