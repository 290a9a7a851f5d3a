pub mod Making
pub mod Ranges
pub mod Replies
