pub mod Sides
pub mod BaseLaws
pub mod Restricting
pub mod ReadVariables
pub mod TrialLaws
