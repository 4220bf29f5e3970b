-- The meaning of one step of a bus script.
pub mod Answer
pub mod Session
pub mod Aside
