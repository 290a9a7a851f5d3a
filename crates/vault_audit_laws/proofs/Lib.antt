pub mod Members
pub mod RecordTies
pub mod TieLemmas
pub mod Uniqueness
pub mod JoinLemmas
pub mod TenureLemmas
pub mod PartLemmas
