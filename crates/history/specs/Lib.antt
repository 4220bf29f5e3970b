-- Any sequence of calls: the calls and what each leaves, what is seen of them, and the bus writes that a choice and a placing amount to.
pub mod History
pub mod Seen
pub mod Bits
pub mod Writes
