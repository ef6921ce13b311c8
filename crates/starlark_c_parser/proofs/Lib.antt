pub mod Owners
pub mod Values
