pub mod Claims
pub mod Refuted
