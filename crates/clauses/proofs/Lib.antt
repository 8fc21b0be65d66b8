pub mod Four
pub mod Fresh
pub mod Listed
pub mod Reading
pub mod RightRows
pub mod Spelling
