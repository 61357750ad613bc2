pub mod Request
pub mod Word
