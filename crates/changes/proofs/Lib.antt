-- Laws of stretches that changed.
pub mod Stretches
