pub mod Bits
pub mod Filtering
pub mod Members
pub mod Unions
