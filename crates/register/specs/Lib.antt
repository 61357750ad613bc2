pub mod Date
pub mod Sixty
