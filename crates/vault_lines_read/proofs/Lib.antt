pub mod CommandLemmas
pub mod FieldLemmas
pub mod GrammarLemmas
pub mod LineLemmas
pub mod SpelledLemmas
pub mod StampedLemmas
mod TableLemmas
pub mod StampedAt
