pub mod Values
pub mod Simulation
pub mod Lanes
pub mod Cubes
pub mod Writing
pub mod Lifting
