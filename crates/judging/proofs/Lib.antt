-- Laws of a plate judged.
pub mod Same
pub mod Outcomes
pub mod Whose
pub mod Worked
