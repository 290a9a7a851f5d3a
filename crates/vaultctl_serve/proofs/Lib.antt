pub mod AccountLemmas
pub mod InTimeLemmas
pub mod LogLemmas
pub mod ReportLemmas
pub mod ServingLemmas
pub mod StrangerLemmas
pub mod WholeLemmas
