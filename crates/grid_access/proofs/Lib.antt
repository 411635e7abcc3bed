pub mod Greatest
pub mod Made
pub mod MapEntries
pub mod GivenLevels
