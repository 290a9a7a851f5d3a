pub mod Fault
pub mod Words
pub mod Named
pub mod Rights
pub mod Locks
