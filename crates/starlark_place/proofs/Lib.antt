pub mod Characters
pub mod Counts
pub mod Blocks
pub mod Feeds
pub mod Lines
pub mod Order
pub mod Examples
