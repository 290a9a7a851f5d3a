pub mod Dates
pub mod JiffDates
pub mod DayNumbers
pub mod MomentGrammar
pub mod ReadBack
pub mod ReadParts
pub mod Spelled
pub mod YearsLater
