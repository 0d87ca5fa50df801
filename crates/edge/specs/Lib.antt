pub mod Faults
pub mod Told
pub mod Reads
pub mod Writes
pub mod InMemory
pub mod Units
pub mod Ends
