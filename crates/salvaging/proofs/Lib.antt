-- Lemmas that the proofs share.
pub mod Walks
pub mod Turns
pub mod Puts
pub mod Outcomes
pub mod Cleaned
pub mod Played
pub mod Again
