pub mod Plans
pub mod Puts
pub mod Rewriting
pub mod Removals
