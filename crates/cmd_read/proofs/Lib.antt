pub mod Asking
pub mod Counting
pub mod Each
pub mod Finding
pub mod Numbers
pub mod Once
pub mod SameWords
