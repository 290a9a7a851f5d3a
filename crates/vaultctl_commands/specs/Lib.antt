pub mod Asked
pub mod Words
pub mod PrintedIntake
pub mod Printed
pub mod Faults
pub mod Evidence
pub mod Rows
