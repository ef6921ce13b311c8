pub mod Beside
pub mod BesideStatements
pub mod BesideTypes
pub mod Tops
pub mod TypePlaces
pub mod Writing
pub mod WritingNodes
