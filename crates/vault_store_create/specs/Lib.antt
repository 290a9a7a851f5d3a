pub mod Create
pub mod Listings
pub mod RowsOf
pub mod Copied
