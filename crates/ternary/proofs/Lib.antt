mod Besides
mod Writing
pub mod Simulated
pub mod Refined
mod Words
mod LanesWritten
mod Forgetting
mod CubeLaws
mod LiftLaws
mod Ahead
