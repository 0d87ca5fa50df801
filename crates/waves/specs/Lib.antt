pub mod Wires
pub mod Names
pub mod Buses
pub mod Signals
pub mod Kept
pub mod Dumps
pub mod Laws
