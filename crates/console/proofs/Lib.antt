pub mod Taking
pub mod Through
