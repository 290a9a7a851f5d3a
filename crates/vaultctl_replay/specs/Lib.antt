pub mod Lines
pub mod Runs
pub mod Changes
pub mod Entries
pub mod Journal
