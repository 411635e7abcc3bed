pub mod Errors
pub mod Journal
pub mod Replaying
pub mod Stands
pub mod Start
pub mod Store
