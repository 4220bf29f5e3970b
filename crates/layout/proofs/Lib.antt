-- Laws of the state record as bytes.
pub mod Inverse
pub mod Stores
