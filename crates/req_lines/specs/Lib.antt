pub mod Reading
pub mod Hearing
pub mod Heads
pub mod Progress
