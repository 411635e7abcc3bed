pub mod ChildPaths
pub mod InOrder
pub mod Listed
pub mod ShownMaps
pub mod ShownWords
pub mod Turns
