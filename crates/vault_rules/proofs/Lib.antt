pub mod Fit
pub mod KeyRepeat
pub mod Lasts
pub mod Sets
pub mod Truth
