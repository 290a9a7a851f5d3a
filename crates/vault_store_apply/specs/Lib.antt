pub mod Applies
pub mod Known
pub mod Left
pub mod Parts
pub mod EntryParts
pub mod Heads
pub mod Typed
