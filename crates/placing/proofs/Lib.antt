-- Laws of a plate placed.
pub mod Each
pub mod Weighed
pub mod Placed
pub mod Shown
pub mod Left
pub mod RoundTrip
