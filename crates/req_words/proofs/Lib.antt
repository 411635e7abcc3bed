pub mod LineReading
pub mod OneReading
pub mod QuotedWords
pub mod Steps
