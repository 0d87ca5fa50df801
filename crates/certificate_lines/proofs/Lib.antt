-- The laws, and lemmas of the functions.
pub mod FieldLaws
pub mod WordLaws
pub mod UseLaws
pub mod ClauseLaws
pub mod FormLaws
