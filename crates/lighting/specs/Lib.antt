-- From light to shade, steps 1 to 3, in the paper's order.
pub mod Taken
pub mod Light
pub mod Aside
