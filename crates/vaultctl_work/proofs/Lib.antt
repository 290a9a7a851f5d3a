pub mod AskedLemmas
pub mod HonestLemmas
pub mod IntakeLemmas
mod OutcomeLemmas
