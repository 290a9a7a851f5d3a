mod Commands
mod Counted
mod Taken
