pub mod CarriedLemmas
mod ClosingLemmas
pub mod Failures
mod FoundLemmas
mod MigrationLemmas
mod VersionLemmas
mod OpeningLemmas
mod RefusalLemmas
