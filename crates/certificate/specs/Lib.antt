-- What answers are, which of them are good, and the first fault of the others.
pub mod Lines
pub mod Certificates
pub mod Refuted
pub mod Answers
pub mod Writing
pub mod Reading
pub mod Ends
pub mod Laws
pub mod Seen
pub mod Steps
pub mod Texts
pub mod Lassos
pub mod Loading
pub mod Whole
