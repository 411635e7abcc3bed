pub mod Asked
pub mod Calls
pub mod Executing
pub mod Finishing
pub mod Running
