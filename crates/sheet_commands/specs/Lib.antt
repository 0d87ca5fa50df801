pub mod Each
pub mod Boards
pub mod Blocks
pub mod Cutting
pub mod Verdicts
