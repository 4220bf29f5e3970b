-- Exported calls one after the other: what they hand on, and what is shown by it.
pub mod Exported
pub mod Shown
