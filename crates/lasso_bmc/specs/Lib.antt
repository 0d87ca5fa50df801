pub mod Searching
pub mod Growing
pub mod ConeSearches
