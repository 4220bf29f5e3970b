-- Captures, cycle by cycle, and what a tick means.
pub mod Capture
pub mod Calls
pub mod Aside
