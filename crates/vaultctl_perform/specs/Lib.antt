pub mod Calls
pub mod Done
pub mod Named
pub mod Replay
pub mod Status
pub mod Printed
