pub mod Answer
pub mod Does
pub mod SetRate
