pub mod Completing
pub mod Filling
pub mod Handing
pub mod Passing
pub mod Walking
pub mod Words
