-- Theorems on audits.
pub mod Sessions
pub mod Writes
pub mod Summed
pub mod Told
pub mod Worked
pub mod Alike
pub mod Loop
