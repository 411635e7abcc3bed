pub mod NewChildren
pub mod NewResources
