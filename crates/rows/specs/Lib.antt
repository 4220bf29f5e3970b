-- Rows of values: devices of contracts between crates.
pub mod Aside
