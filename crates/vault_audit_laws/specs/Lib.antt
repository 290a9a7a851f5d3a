pub mod Ties
pub mod Parts
