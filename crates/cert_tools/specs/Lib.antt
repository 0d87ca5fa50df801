-- What the tools of certificates make of an answer.
pub mod Kept
pub mod TrimmedProofs
pub mod Trimmed
pub mod Laws
pub mod Reaching
pub mod TrimmingProofs
pub mod TrimmingEntries
pub mod Empty
pub mod Dimacs
pub mod Exported
pub mod Exporting
