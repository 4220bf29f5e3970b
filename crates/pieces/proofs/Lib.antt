-- Laws of a recording in pieces.
pub mod Pieces
