-- The picture area as shades.
pub mod Shades
pub mod Aside
