-- Laws of a row's shades as bytes.
pub mod Columns
