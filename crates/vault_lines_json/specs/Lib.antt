pub mod Document
pub mod Shape
pub mod Members
pub mod Values
pub mod Locks
pub mod Rules
pub mod Spelling
