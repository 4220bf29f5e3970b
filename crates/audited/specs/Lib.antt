-- What an audit says, as statements: a recording as a history, what its events tell, and a recording in pieces.
pub mod Sessions
pub mod Told
pub mod Summed
pub mod Loop
