pub mod Requests
pub mod Words
