pub mod Digits
pub mod Signs
