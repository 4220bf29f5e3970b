-- Laws of what is seen of a line.
pub mod Sights
pub mod Puts
