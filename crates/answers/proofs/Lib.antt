-- Laws of answers and of what is left.
pub mod Kept
pub mod Only
