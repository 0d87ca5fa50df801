pub mod BadRuns
pub mod Numbers
pub mod Watching
pub mod Translation
pub mod Ends
pub mod Examples
pub mod Steps
