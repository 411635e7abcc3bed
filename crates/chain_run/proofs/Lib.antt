pub mod Making
pub mod Reaching
pub mod Answering
pub mod Lists
pub mod Checking
pub mod Coding
pub mod Computed
pub mod Turning
