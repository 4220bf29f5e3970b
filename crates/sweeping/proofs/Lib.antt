-- What holds while whole lines are played.
pub mod Turns
pub mod Only
