-- The matrix of thresholds.
pub mod Matrix
