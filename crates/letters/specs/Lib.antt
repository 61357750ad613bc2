pub mod Covered
