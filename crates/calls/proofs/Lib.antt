-- Laws of calls over the bytes of a record.
pub mod Bytes
pub mod Left
pub mod Ticking
