pub mod Dates
pub mod Sixties
