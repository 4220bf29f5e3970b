-- The meaning of a salvaged script.
pub mod Kept
pub mod Salvage
pub mod Aside
pub mod Marks
