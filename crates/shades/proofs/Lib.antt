-- Laws of the area as shades, and of what is answered where bytes are put in a lent buffer.
pub mod Tones
pub mod Outputs
