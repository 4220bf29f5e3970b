-- The numbers of the sentence.
pub mod Counted
