pub mod Calendar
pub mod Days
pub mod Grammar
pub mod Moment
