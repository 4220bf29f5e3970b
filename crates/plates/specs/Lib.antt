-- Plates as files.
pub mod Grey
