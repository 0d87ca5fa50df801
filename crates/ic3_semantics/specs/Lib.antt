pub mod Arenas
pub mod Searching
pub mod Stepping
pub mod Ends
pub mod Laws
