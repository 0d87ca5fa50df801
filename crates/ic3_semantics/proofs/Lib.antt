pub mod Asked
pub mod Arenas
pub mod Separated
