-- A recording in pieces, and its end.
pub mod Pieces
pub mod Aside
