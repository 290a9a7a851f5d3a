pub mod Fields
pub mod Number
pub mod Path
pub mod Query
pub mod ResourcePath
pub mod Routes
pub mod Target
