mod Groups
mod Order
mod Written
pub mod GroupLoop
pub mod DifferenceLaws
pub mod TextLaws
mod OrderOfTexts
