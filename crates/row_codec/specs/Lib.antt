pub mod Codes
pub mod Reading
pub mod Rows
pub mod Stopping
pub mod Tagged
