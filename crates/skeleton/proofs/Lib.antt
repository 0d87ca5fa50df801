pub mod Staying
pub mod Using
pub mod StateLaws
pub mod Telling
pub mod Growing
pub mod Made
