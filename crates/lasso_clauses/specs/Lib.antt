pub mod Moments
pub mod Clauses
pub mod Laws
pub mod Lowness
pub mod Moving
pub mod Examples
