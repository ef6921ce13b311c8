pub mod Beginnings
pub mod Ordered
