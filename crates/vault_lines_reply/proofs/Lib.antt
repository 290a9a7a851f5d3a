pub mod ReplyLemmas
mod RuleLemmas
