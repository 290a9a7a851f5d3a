pub mod SoundLemmas
pub mod NameLemmas
pub mod WithinLemmas
pub mod FoundLemmas
pub mod MetaLemmas
pub mod OrderLemmas
pub mod TextLemmas
