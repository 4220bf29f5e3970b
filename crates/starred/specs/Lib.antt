-- The checked figures.
pub mod Figures
