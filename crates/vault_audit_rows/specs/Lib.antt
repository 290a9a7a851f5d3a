pub mod Cells
pub mod Walk
pub mod Pass
pub mod Records
pub mod Beside
pub mod Health
