-- Laws of the bus.
pub mod Facing
pub mod Refusals
pub mod Written
