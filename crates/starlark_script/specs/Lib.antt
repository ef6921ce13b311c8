pub mod Device
pub mod Coming
pub mod Printed
pub mod Script
pub mod Reading
pub mod Engine
pub mod Laws
