-- Laws of saves.
pub mod Put
pub mod Saved
pub mod Restored
pub mod RoundTrip
pub mod Changed
