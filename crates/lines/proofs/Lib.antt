-- Laws of a line and of its digits.
pub mod Digits
pub mod Frames
pub mod Begins
pub mod Placed
pub mod Spelt
pub mod Malformed
