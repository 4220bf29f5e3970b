-- The meaning of the controller, in the paper's order.
pub mod State
pub mod Outcome
pub mod Table
pub mod Picture
pub mod Inspect
pub mod Aside
