pub mod Beginning
pub mod Errors
pub mod Opening
pub mod Preparing
