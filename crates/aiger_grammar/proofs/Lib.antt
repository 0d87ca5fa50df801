pub mod Symbols
pub mod NamesLaws
pub mod LineSpelling
pub mod Room
pub mod SpellingLaws
pub mod DeltaLaws
pub mod Ranges
