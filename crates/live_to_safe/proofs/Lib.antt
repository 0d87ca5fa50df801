pub mod Lists
pub mod Numbering
pub mod Before
mod Reading
pub mod Extending
mod Defining
pub mod Valued
mod Watched
pub mod Lassos
mod Exact
mod Kept
