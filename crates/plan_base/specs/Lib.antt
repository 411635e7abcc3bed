pub mod Forgetting
pub mod Found
pub mod NewItems
pub mod Plans
pub mod Room
