pub mod Copies
pub mod Replacing
