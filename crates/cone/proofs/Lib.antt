pub mod TableLaws
pub mod Searches
