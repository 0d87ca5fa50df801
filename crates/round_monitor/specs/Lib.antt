pub mod Counting
pub mod Numbers
pub mod Watching
pub mod Monitor
pub mod Ends
pub mod Examples
pub mod Steps
