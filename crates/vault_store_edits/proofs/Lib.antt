pub mod BoundLemmas
pub mod CastLemmas
mod ChangeLemmas
pub mod CopyLemmas
mod EntryRowLemmas
mod EntryTextLemmas
pub mod ListLemmas
pub mod PutLemmas
pub mod QueryLemmas
pub mod ReadyLemmas
mod RecordRowLemmas
mod RecordTextLemmas
mod RulesLemmas
pub mod ScanLemmas
pub mod StatementLemmas
pub mod TableLemmas
pub mod TestLemmas
pub mod TransactionLemmas
pub mod TypeLemmas
pub mod UnknownLemmas
