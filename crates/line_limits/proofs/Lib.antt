pub mod TotalLimits
pub mod TotalsRead
