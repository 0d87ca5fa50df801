pub mod CoverLaws
pub mod LoggedLaws
pub mod IdLaws
pub mod SpellingLaws
pub mod WritingLaws
pub mod WithUnitsLaws
pub mod PuttingLaws
