pub mod CloseYear
pub mod Rows
pub mod Totals
