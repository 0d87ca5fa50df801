pub mod Variables
pub mod AddedLines
pub mod Taken
pub mod WrittenSizes
