pub mod Composite
pub mod Pattern
pub mod Walk
