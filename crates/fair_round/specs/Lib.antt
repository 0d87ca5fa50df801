pub mod Spending
pub mod Scopes
pub mod Walks
pub mod Places
pub mod Deeds
pub mod Pools
pub mod Stems
pub mod Rounds
