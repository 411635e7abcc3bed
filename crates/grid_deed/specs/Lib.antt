pub mod Deeds
pub mod Frame
pub mod Held
pub mod Safe
