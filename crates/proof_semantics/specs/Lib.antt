pub mod Clauses
pub mod Propagation
pub mod Lines
pub mod Proofs
pub mod Acceptance
