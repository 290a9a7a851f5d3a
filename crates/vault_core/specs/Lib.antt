pub mod StepByStep
pub mod Hearing
