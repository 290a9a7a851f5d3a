pub mod FoldLemmas
pub mod NumberLemmas
pub mod WordsLemmas
