-- Worked histories.
pub mod Worked
pub mod WorkedBits
pub mod WorkedSeen
