-- How an exported function's answer is packed.
pub mod Packed
pub mod Called
