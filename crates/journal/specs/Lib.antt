pub mod ColumnOf
pub mod InTurn
