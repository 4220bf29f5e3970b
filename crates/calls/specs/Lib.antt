-- What reads, writes and ticks over bytes are said to do.
pub mod Aside
