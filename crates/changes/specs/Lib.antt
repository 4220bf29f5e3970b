-- What outside the picture area changed.
pub mod Changes
