pub mod Format
pub mod Loading
