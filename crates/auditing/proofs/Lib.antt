-- Laws of a line.
pub mod Lines
