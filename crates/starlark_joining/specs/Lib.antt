pub mod Joined
pub mod Kept
pub mod Relaid
pub mod Same
pub mod Trees
