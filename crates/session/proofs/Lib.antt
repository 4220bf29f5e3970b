-- Lemmas that the proofs share.
pub mod Texts
pub mod Steps
pub mod Six
pub mod Only
