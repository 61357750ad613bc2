pub mod Factors
pub mod Joins
pub mod Listing
pub mod Texts
