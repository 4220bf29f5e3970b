-- One save file, written and read.
pub mod Save
pub mod Restore
