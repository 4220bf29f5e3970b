-- Laws of a choice.
pub mod Registers
pub mod Choices
pub mod Before
pub mod Rising
pub mod Level
