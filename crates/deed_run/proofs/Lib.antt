pub mod PutSteps
pub mod WriteSteps
pub mod NotedSteps
pub mod NoteCalls
pub mod SentSteps
pub mod SmallFiles
pub mod StoredFiles
pub mod SumWords
