-- Laws of texts that are put into a buffer.
pub mod Puts
