pub mod PatternAdded
pub mod PatternAsked
pub mod Turns
