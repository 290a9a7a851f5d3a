pub mod Answered
pub mod Asked
pub mod Line
pub mod Logging
pub mod Members
pub mod Noting
