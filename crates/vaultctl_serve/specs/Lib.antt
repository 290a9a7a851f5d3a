pub mod Account
pub mod InTime
pub mod Scan
pub mod Serving
pub mod Strangers
pub mod Whole
