pub mod Narrowing
pub mod Parts
pub mod Shown
pub mod Stages
pub mod Unsorted
