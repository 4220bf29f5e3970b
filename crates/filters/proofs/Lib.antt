-- The modules of `proofs/` that belong to no one function.
pub mod Facts
pub mod Weights
pub mod Quarters
pub mod Modes
