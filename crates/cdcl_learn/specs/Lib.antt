pub mod Learning
pub mod Walking
