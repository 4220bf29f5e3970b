-- What lines of a piece leave that are read where they stand.
pub mod Aside
