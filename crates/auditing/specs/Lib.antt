-- What an audit says of a line, and its summary.
pub mod Line
pub mod Summary
pub mod Aside
