-- Laws of the exported functions of scripts.
pub mod Cases
pub mod Only
pub mod Kept
pub mod Steps
