-- Colour photographs in: which files are read, and what image they give.
pub mod Header
pub mod Photo
pub mod Aside
