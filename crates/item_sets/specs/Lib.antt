pub mod Iteration
pub mod Sets
