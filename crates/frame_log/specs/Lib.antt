pub mod Blocks
pub mod Extent
pub mod Log
pub mod Records
pub mod Steps
