-- The meaning of the state record as bytes.
pub mod Layout
