-- Step 7 of light to shade, in the paper's order.
pub mod Tiles
pub mod Picture
pub mod Aside
