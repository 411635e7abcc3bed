pub mod Showing
pub mod Things
