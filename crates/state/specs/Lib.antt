pub mod Hints
pub mod Lines
pub mod Months
pub mod Patterns
pub mod Rates
pub mod Store
pub mod Totals
pub mod View
