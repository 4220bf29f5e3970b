-- The figures' statement.
pub mod Figures
