pub mod SameRows
pub mod ValueLemmas
pub mod OutcomeLemmas
pub mod ListLemmas
pub mod PlaceLemmas
pub mod CommandLemmas
