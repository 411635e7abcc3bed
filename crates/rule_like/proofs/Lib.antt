pub mod Matching
pub mod Searching
