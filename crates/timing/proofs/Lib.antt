-- Laws of lengths and timing.
pub mod Lent
pub mod Zeros
pub mod Range
pub mod Lit
