pub mod EndsOfReplaced
mod ExamplesOfSuppressions
pub mod Faulting
pub mod Costing
pub mod Located
pub mod Bindings
pub mod Pieces
pub mod Tallying
