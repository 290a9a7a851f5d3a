pub mod Ends
pub mod Later
pub mod IntakeLines
pub mod Removals
pub mod Records
pub mod Rows
pub mod Lists
