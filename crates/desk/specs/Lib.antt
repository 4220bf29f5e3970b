-- The meaning of a choice at the museum desk.
pub mod Levels
pub mod Choice
pub mod Stored
