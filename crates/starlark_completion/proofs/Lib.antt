pub mod MovingPoints
pub mod MovingFrames
pub mod MovingSpots
pub mod Moving
pub mod Nests
pub mod Counting
pub mod Running
pub mod Lined
pub mod Closed
pub mod Completed
pub mod Ways
pub mod Passed
pub mod Dedented
pub mod Ended
pub mod Closing
mod Tokens
mod Going
mod Cutting
mod Texts
mod Refused
