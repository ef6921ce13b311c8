pub mod Cutting
pub mod Opened
pub mod Spelling
