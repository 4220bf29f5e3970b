-- The exported functions of pictures, plates and photographs.
pub mod Images
pub mod Judges
