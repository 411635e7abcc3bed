pub mod Names
pub mod Steps
pub mod Reading
pub mod Spots
pub mod Lines
pub mod Ordered
