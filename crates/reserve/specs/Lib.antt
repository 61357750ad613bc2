pub mod Closing
pub mod Figures
pub mod Lists
pub mod YearEnd
