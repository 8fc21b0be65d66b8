pub mod Building
pub mod Clauses
pub mod Loading
pub mod Tables
pub mod Reaching
pub mod BuildingLemmas
pub mod Passes
