-- The meaning of the bus script.
pub mod Text
pub mod Recording
pub mod Pieces
pub mod Loop
