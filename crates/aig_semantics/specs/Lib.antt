pub mod Literals
pub mod Circuits
pub mod Valuations
pub mod Runs
pub mod Stimuli
pub mod Examples
