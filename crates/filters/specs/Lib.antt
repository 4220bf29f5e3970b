-- From light to shade, step 4: the filters.
pub mod Edge
pub mod Aside
