pub mod AddPattern
