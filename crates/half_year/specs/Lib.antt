pub mod SquareRule
