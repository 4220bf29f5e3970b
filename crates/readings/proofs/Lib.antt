-- Laws of the readings.
pub mod Parts
pub mod Values
pub mod Before
pub mod Light
