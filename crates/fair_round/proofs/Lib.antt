pub mod Allowed
pub mod Walks
pub mod Steps
pub mod Counting
pub mod Pools
pub mod Stems
pub mod Kept
