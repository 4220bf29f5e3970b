-- Laws of the exported functions of pictures, plates and photographs.
pub mod Cases
pub mod Only
pub mod Kept
pub mod Judges
