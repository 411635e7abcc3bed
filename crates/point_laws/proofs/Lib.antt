pub mod Ending
pub mod InOrder
pub mod Names
pub mod Rows
pub mod Sending
pub mod Stopping
