pub mod AccessChanges
pub mod Flags
pub mod Joining
pub mod Moving
pub mod NewCollections
pub mod NewUsers
