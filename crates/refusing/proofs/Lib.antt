-- Each exported function's refusals, and those of a script's line, one statement each.
pub mod Refused
pub mod Lines
