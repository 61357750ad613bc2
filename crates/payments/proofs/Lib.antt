pub mod Ages
pub mod Judged
pub mod Tails
pub mod Whole
