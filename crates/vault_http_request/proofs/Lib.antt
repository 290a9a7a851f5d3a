pub mod Contains
pub mod Heads
pub mod Prompt
pub mod Blank
