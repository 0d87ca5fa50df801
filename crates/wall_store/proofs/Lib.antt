pub mod Behind
pub mod Serving
pub mod Excluding
pub mod Kept
pub mod Ascending
