pub mod Adding
pub mod Appending
pub mod Blocks
pub mod Frames
pub mod Headers
pub mod Looking
pub mod Reading
pub mod Torn
