pub mod RowLoops
pub mod RowPatterns
pub mod Turns
pub mod YearAdded
pub mod YearAsked
pub mod YearClosed
