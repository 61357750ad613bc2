pub mod Means
pub mod Near
pub mod Patterns
pub mod Steps
pub mod Verdicts
