pub mod PaidByAge
pub mod Payment
pub mod Ratio
pub mod Schedule
