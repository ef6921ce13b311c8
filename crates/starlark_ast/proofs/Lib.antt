pub mod Anywhere
pub mod Blocks
mod Examples
pub mod Sizes
pub mod Tops
pub mod Written
