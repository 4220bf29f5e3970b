-- Lemmas that the proofs share.
pub mod Feeds
pub mod Whole
pub mod Loop
pub mod Only
pub mod Replayed
pub mod Moves
