pub mod Doors
pub mod Hearing
pub mod Troubles
pub use Rattle.vaultctl_serve_lines_answers.specs.declared.line.Next
