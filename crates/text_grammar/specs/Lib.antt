-- Words of the texts that the program reads and writes.
pub mod Numerals
pub mod Pieces
pub mod Lines
pub mod Laws
