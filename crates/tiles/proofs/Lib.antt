-- Laws of the tiles.
pub mod Run
pub mod Pixels
pub mod Area
pub mod Eight
pub mod Pairs
pub mod Part
pub mod Lit
pub mod EdgeRows
