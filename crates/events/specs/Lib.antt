-- The events of a recording, and its book.
pub mod Book
pub mod Event
pub mod Entry
pub mod Aside
