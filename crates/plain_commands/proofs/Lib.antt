mod TextsRead
pub mod Judging
mod Grouping
pub mod Written
pub mod Remaking
mod Converted
mod Trimmed
pub mod Exported
pub mod Translated
mod Counted
pub mod Bounded
pub mod Sliced
