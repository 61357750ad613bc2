pub mod Take
pub mod Through
pub mod Write
