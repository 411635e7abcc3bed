pub mod ByRows
pub mod Ending
pub mod Stopped
pub mod Taken
