pub mod Declared
pub mod RateSet
pub mod Settling
