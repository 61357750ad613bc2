pub mod Factor
pub mod Within
