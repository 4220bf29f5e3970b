-- The table of each exported function's refusals, and of a script's line.
pub mod Tables
pub mod Line
