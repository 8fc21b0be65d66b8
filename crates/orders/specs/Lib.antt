pub mod Loading
pub mod Orders
pub mod Rows
pub mod Tables
pub mod Checks
pub mod Beginnings
pub mod Unions
