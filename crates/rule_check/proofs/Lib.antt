pub mod Keeping
pub mod TableLemmas
pub mod JoinedLemmas
