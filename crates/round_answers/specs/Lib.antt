-- Texts about rounds: what they are, which of them are good, the first fault of the others, and how one is written.
pub mod Texts
pub mod Answers
pub mod Reading
pub mod Ends
pub mod Writing
pub mod Laws
pub mod Telling
pub mod Seen
pub mod Running
pub mod First
