pub mod Sized
pub mod Handed
