pub mod Clauses
pub mod Comparing
