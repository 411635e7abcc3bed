pub mod DistinctLeaves
pub mod Fewer
pub mod GivenNumbers
pub mod Leaves
pub mod RowNumbers
