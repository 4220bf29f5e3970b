-- The exported functions of an audit.
pub mod Audits
