-- Laws of the controller's definitions.
pub mod Records
pub mod Exists
pub mod First
pub mod Only
pub mod Refusals
pub mod Judging
pub mod Afresh
