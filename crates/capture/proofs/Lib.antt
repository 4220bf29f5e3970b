-- Laws of captures.
pub mod Exists
pub mod Refusals
pub mod Ticks
pub mod Passing
pub mod TickSum
