pub mod Lists
mod Numbering
mod Reading
mod Valued
mod Watched
mod Exact
mod Kept
