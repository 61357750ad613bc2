pub mod RowCounts
