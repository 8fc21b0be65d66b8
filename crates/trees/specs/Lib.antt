pub mod Full
pub mod Listings
pub mod Trees
pub mod Walking
pub mod Words
