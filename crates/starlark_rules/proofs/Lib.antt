mod Examples
pub mod Converting
pub mod Unpacking
pub mod ParameterLists
pub mod Forms
pub mod Misfits
pub mod Places
