pub mod Notes
pub mod Puts
pub mod Sent
pub mod Written
