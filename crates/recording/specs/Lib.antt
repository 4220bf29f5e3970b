-- The meaning of a frame written as a line.
pub mod Record
