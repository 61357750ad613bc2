pub mod Columns
pub mod InTurn
pub mod LineQuestions
pub mod LineRead
