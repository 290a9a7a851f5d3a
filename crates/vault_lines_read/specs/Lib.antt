pub mod Fields
pub mod Grammar
pub mod ListLine
pub mod ReadLine
pub mod Stamped
pub mod Verb
