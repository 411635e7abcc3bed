pub mod Faults
pub mod Rules
pub mod Seen
pub mod Tables
pub mod Words
