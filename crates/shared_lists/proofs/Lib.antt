pub mod LentBoards
pub mod HeldPasses
