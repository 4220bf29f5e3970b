-- Laws of the matrix.
pub mod First
