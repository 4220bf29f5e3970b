-- Lengths and timing, in the paper's order.
pub mod Lent
pub mod Registers
pub mod Timing
pub mod Aside
