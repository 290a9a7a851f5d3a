pub mod Meta
pub mod MetaCount
pub mod ByName
pub mod RulesByPlace
pub mod Entries
pub mod EntriesByNumber
