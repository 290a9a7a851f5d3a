pub mod LineLemmas
pub mod RunLemmas
pub mod Unchanged
pub mod Runs
pub mod Parts
pub mod Notes
pub mod Leads
pub mod LastLine
