pub mod Growing
pub mod Theory
