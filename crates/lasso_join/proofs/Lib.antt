pub mod Ways
pub mod Joined
pub mod Prefixes
