pub mod FromRegister
pub mod Registered
