pub mod ReplyLine
pub mod Putting
pub mod Object
pub mod SpelledRule
