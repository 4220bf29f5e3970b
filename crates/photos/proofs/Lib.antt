-- Laws of photographs.
pub mod Bytewise
pub mod Imports
pub mod Grammar
pub mod Reader
pub mod Accepted
