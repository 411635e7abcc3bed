pub mod Counted
pub mod Fronts
pub mod PrintedDigests
pub mod SignedLines
pub mod Spelled
pub mod WordLists
