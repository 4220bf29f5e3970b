-- What an audit prints: numbers, words and events.
pub mod Words
pub mod Keys
pub mod Events
pub mod Aside
