pub mod Piece
pub mod Value
