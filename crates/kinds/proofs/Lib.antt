pub mod All
pub mod Taken
