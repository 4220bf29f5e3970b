-- Laws of plates as files.
pub mod Exports
pub mod Same
