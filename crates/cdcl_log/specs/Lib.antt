pub mod Variables
pub mod LoggedClauses
pub mod UnitClauses
pub mod WithUnits
pub mod Ids
pub mod IdsOf
pub mod Writing
pub mod WritingOf
