pub mod Goals
pub mod Keeping
pub mod Standing
