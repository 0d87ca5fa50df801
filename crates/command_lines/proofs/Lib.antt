mod Making
mod Values
mod Exports
mod Shortest
mod Waves
mod EachCommand
pub mod Taken
