pub mod Symbols
pub mod Slicing
pub mod Ends
pub mod Steps
