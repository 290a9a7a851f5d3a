pub mod Quiet
pub mod Staying
pub mod Shown
pub mod Queries
pub mod Wants
pub mod Readable
