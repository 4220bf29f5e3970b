-- Laws of the exported functions of an audit.
pub mod Audits
