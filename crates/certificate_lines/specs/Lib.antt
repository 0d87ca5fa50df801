-- The lines of a certificate's text: how each is spelled, and how it is read.
pub mod Fields
pub mod Words
pub mod Uses
pub mod Clauses
pub mod Laws
pub mod Reading
