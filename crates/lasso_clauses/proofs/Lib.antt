pub mod Moving
pub mod Sizes
pub mod States
pub mod Runs
pub mod Holding
pub mod Reading
pub mod Writing
pub mod Telling
