pub mod Fitting
pub mod Prefixes
