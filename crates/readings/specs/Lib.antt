-- The readings of a held capture.
pub mod Readings
