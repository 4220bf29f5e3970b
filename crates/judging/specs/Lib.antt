-- Which rows of a plate are a frame's.
pub mod Judging
