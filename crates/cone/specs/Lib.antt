pub mod Cones
pub mod Finding
