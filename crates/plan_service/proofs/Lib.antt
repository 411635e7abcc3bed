pub mod AddedWords
pub mod PlannedCalls
