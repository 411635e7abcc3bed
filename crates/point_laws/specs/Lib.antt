pub mod Names
pub mod Works
