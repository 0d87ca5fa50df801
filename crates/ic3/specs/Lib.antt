pub mod SteppingInside
pub mod SteppingStart
pub mod Searches
pub mod SearchesInside
