pub mod WalkTexts
pub mod RemovedLemmas
pub mod ReadableRows
pub mod HandLemmas
pub mod StreamLemmas
pub mod LastLemmas
pub mod HoldingLemmas
pub mod HoldingSums
