pub mod BodyLemmas
pub mod TextLemmas
pub mod Counted
pub mod Serves
pub mod JudgingLemmas
pub mod StateLemmas
