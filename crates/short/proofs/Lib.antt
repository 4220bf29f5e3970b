-- Lemmas that the proofs share.
pub mod Standing
