-- What whole lines of a recording leave.
pub mod Aside
