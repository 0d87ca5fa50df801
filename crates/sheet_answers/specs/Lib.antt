-- Sheets: what they are, which of them are good, the first fault of the others, and how one is written.
pub mod Sheets
pub mod Reading
pub mod Ends
pub mod Writing
pub mod Laws
pub mod Examples
pub mod Seen
pub mod First
pub mod Texts
