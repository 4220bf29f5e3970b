-- The exported functions of script lines and scripts.
pub mod Recorder
pub mod Steps
