pub mod Compare
pub mod Forms
pub mod Parts
pub mod Places
pub mod Selects
pub mod Statements
pub mod Texts
