pub mod Loops
pub mod Reading
