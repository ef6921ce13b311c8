pub mod Idents
pub mod Listed
pub mod Ready
pub mod Sizes
pub mod Steps
pub mod Takes
pub mod Visited
