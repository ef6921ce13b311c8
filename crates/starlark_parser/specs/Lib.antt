pub mod Suppressions
pub mod Tallies
pub mod Faults
pub mod Modules
pub mod Loaded
pub mod Locations
pub mod Shown
pub mod Costs
