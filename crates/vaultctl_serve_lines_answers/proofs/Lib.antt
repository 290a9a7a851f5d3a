pub mod ClosingLemmas
pub mod HeardLemmas
mod NamesLemmas
mod BucketsLemmas
mod LawfulLemmas
mod PageLemmas
mod StatusLemmas
