-- The meaning of one line of the bus script.
pub mod Line
pub mod Kinds
pub mod Hex
