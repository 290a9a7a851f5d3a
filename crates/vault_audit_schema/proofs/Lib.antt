pub mod CompareLemmas
pub mod DifferenceLemmas
pub mod TakenLemmas
