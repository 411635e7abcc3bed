pub mod Seen
pub mod Stages
