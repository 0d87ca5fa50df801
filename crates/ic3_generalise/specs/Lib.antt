pub mod Cubes
pub mod Generalising
