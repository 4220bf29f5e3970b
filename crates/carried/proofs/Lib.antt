-- Theorems on exported calls one after the other.
pub mod Fits
pub mod Handed
pub mod Carried
pub mod Worked
