pub mod ArgumentLemmas
pub mod SizeLemmas
pub mod StarLemmas
