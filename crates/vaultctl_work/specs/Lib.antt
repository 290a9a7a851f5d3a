pub mod Asked
pub mod Done
pub mod Noted
pub mod Outcomes
pub mod Scene
pub mod Printed
