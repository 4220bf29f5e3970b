-- Laws of frames written as lines.
pub mod Written
pub mod Accepted
pub mod Recorded
