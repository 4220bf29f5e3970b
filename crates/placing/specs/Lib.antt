-- A plate's file back into the picture area.
pub mod Placing
pub mod Aside
