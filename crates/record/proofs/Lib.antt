pub mod Answers
pub mod Caps
pub mod Columns
pub mod Gathers
pub mod Questions
pub mod Samples
