pub mod Pieces
pub mod Named
mod Readings
pub mod Steady
mod Writings
pub mod Ends
