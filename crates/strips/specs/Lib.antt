-- Step 6 of light to shade by the row.
pub mod Aside
pub mod Turned
