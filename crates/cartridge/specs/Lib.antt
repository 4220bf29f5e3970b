-- The bus: what a read and a write mean.
pub mod Bus
pub mod Calls
pub mod Aside
