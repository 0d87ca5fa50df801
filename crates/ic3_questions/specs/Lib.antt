pub mod SteppingClauses
pub mod ReadVariables
