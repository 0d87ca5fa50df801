pub mod PieceLaws
pub mod LineLaws
pub mod NumeralLaws
