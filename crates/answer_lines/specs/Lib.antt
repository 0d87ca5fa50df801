-- The lines of a text that is read piece by piece.
pub mod Left
pub mod LinesOf
