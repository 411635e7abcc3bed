pub mod Planned
pub mod Verbs
