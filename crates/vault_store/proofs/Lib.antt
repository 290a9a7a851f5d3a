pub mod KeptLemmas
mod KnownLemmas
pub mod EditionLemmas
mod ReadLemmas
mod AcknowledgedLemmas
mod RollbackLemmas
mod TableLemmas
mod CreateLemmas
mod CommitLemmas
mod MigrateLemmas
pub mod ShutLemmas
